pub mod KindFronts
