mod BackedUp
mod Checked
mod KeptOutputs
mod Leaving
mod OutputNames
mod RefilledLemmas
mod SessionLeaving
