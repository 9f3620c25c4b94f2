mod Addresses
mod Parts
mod Worked
