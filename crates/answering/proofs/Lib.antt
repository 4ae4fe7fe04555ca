-- What the three services are proved by.
mod ServiceAnswers
