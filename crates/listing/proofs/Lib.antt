-- What listing is proved by.
mod ListingAnswers
