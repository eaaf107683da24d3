pub mod HeldLines
