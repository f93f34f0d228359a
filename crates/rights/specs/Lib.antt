pub mod Senders
