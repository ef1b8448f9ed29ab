-- Objects that go over one by one.
pub mod GoneOver
