-- What contracts cite of the functions that tests call.
pub mod PackedBlocks
