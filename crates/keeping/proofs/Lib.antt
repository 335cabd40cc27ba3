mod Fitting
mod Showing
