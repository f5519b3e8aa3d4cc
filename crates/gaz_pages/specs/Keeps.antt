-- What calls on pages over a device keep of it.
pub use Rattle.gaz_pool.specs.Keeps.{OnlyReads}
