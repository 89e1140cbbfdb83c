mod PromisesKept
mod EachVariant
