-- What is noted of the errors of streams.
use Rattle.std.specs.Prelude.{Bool, false, ◌||◌}
use Rattle.mi_hub.specs.declared.io_errors.IoErrors.{IoErrors}

-- none is noted
abbrev pub no_errors : IoErrors
no_errors = record { read = false; write = false }

-- a read has failed
abbrev pub reads_fail : IoErrors → Bool
reads_fail e = e.read

-- a write or a flush has failed
abbrev pub writes_fail : IoErrors → Bool
writes_fail e = e.write

-- a read more, which has failed or hasn't
abbrev pub with_read : Bool → IoErrors → IoErrors
with_read failed e = record { read = e.read || failed; write = e.write }

-- a stream more, which has failed or hasn't
abbrev pub with_write : Bool → IoErrors → IoErrors
with_write failed e = record { read = e.read; write = e.write || failed }
