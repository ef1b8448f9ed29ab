mod Calls
mod Logs
