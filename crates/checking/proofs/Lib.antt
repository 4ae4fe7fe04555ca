-- What the check is proved by.
mod KindsJudging
