pub mod Concern
