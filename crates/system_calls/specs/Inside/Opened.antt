-- What stands for a stream of the system.
use Rattle.std.specs.Prelude.{⊤}
use Rattle.system_calls.specs.declared.real.Opened.{Opened}
use Rattle.system_calls.specs.declared.real.Opened.TheVariants as opened

-- what stands for a stream is the standard stream
abbrev pub IsStandard : Opened → Type 0
IsStandard opened.Nothing = ⊥
IsStandard opened.Standard = ⊤
IsStandard (opened.Named _) = ⊥

-- what stands for a stream is a file that was opened by its name
abbrev pub IsOpenedByName : Opened → Type 0
IsOpenedByName opened.Nothing = ⊥
IsOpenedByName opened.Standard = ⊥
IsOpenedByName (opened.Named _) = ⊤
