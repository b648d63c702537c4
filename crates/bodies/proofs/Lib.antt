-- What the last arm of a `match` knows: the record is not of a kind that was asked for.
mod Else
