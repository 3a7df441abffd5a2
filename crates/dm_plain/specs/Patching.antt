-- Replacing a range of bytes. The definitions are the rules', since the machine's patch is made of them too.
pub use Rattle.dm_rules.specs.Patching.{with_zeros, with_overlay}
unfoldable pub use Rattle.dm_rules.specs.Patching.{with_patch}
