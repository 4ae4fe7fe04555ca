-- What `judge_sums` is proved by: the numbers of a kind, and items and lines judged one after the other.
mod KindItems
mod SumsJudging
