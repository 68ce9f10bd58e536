mod Faults
mod Heard
mod Keys
mod Put
mod Reached
mod Texts
