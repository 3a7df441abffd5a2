mod Deciding
mod Tested
