mod Places
mod Continued
