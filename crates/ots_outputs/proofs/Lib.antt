mod Outputs
