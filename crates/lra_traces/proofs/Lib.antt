mod Generations
mod Numbers
mod Texts
