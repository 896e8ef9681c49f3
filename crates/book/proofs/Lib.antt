mod Answering
mod Fits
mod Going
