pub mod ConfigFaults
