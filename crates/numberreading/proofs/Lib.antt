pub mod NumberFronts
