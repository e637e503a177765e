mod Told
mod Alone
