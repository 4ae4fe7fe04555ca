-- What other crates cite: sum lines in order, the next line of an item, an item's lines one after the other, the next kind, and the check's row from
-- some kind of sums on.
pub mod LineOrder
pub mod NextLine
pub mod ItemJudging
pub mod KindOrder
pub mod Row
