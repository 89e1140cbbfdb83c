mod Fronts
mod Runs
mod Among
mod Openers
mod WithEach
mod Ends
