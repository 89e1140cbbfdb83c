mod Written
mod CutLines
mod Odometer
