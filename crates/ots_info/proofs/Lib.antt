mod Dashes
mod Items
