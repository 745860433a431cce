mod PassLemmas
mod PortLemmas
