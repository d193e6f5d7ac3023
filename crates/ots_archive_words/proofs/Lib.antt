mod Built
mod Forms
