-- What the proof of `run` needs.
mod Ends
mod ReleaseMeaning
mod RunMeaning
