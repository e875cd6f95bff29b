mod NoInputs
