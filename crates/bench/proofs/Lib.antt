mod PartGraphs
mod Pushed
