mod NmiLemmas
mod OutcomeLemmas
mod Popped
