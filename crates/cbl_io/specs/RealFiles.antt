-- What a clause reads of the files of the system.
use Rattle.std.specs.Prelude.{ℕ, List}
use Rattle.cbl_io.specs.declared.real_files.RealFiles.{RealFiles}

-- the names whose reads failed, in order
abbrev pub failed_names : {R : Type 0} → RealFiles R → List (List ℕ)
failed_names files = files.failed.items
