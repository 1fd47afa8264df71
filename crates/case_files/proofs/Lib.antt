mod Answers
mod Listed
mod Same
