-- What `accept` is proved by.
mod PackageRead
mod PackageTable
