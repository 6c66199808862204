pub mod Computing
mod AddressLemmas
mod PuttingLemmas
