mod Inserts
mod MountLemmas
mod PlainLemmas
