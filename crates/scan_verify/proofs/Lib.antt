pub mod Same
pub mod Reruns
pub mod Places
