mod Conversing
mod Exchanging
