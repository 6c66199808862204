-- What a line that tells of a refused socket or file ends with, by the kind of the system's error.
use Rattle.std.specs.Prelude.{ℕ, codes, List, []}
use Rattle.std.specs.declared.io.ErrorKind.{ErrorKind}
use Rattle.std.specs.declared.io.ErrorKind.TheVariants.{AddrInUse, AddrNotAvailable, PermissionDenied, NotFound, IsADirectory, AlreadyExists, StorageFull, BrokenPipe, OutOfMemory}

-- the reason, behind a colon; nothing where the kind says no more than that
unfoldable pub reason_of : ErrorKind → List ℕ
reason_of AddrInUse = codes ": address in use"
reason_of AddrNotAvailable = codes ": not an address of this machine"
reason_of PermissionDenied = codes ": permission denied"
reason_of NotFound = codes ": no such file or directory"
reason_of IsADirectory = codes ": is a directory"
reason_of AlreadyExists = codes ": exists already"
reason_of StorageFull = codes ": no space left"
reason_of BrokenPipe = codes ": nobody reads it any more"
reason_of OutOfMemory = codes ": out of memory"
reason_of kind = []
