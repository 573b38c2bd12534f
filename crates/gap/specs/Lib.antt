pub mod Slack
pub mod Forgoing
pub mod Certified
