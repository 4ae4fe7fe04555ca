pub mod Prime
pub mod ByteField
pub mod ByteTables
pub mod Field
