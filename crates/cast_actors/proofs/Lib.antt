mod Within
mod Answering
