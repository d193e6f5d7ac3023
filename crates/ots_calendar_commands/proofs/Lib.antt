mod Following
mod OneAnswer
