mod FrontLemmas
mod InjectLemmas
mod MachineLemmas
mod PlatformLemmas
mod PortLemmas
mod SaidLemmas
