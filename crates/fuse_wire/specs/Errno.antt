-- The numbers of the errors that the daemon answers, as Linux has them.
use Rattle.std.specs.Prelude.{ℕ, List, [], ◌∷◌}
use Rattle.fuse_wire.specs.declared.errno.Errno.{Errno}
use Rattle.fuse_wire.specs.declared.errno.Errno.TheVariants as errnos

-- the number of an error
unfoldable pub errno_number : Errno → ℕ
errno_number errnos.ENOENT = 2
errno_number errnos.EIO = 5
errno_number errnos.EBADF = 9
errno_number errnos.EBUSY = 16
errno_number errnos.EEXIST = 17
errno_number errnos.ENOTDIR = 20
errno_number errnos.EISDIR = 21
errno_number errnos.EINVAL = 22
errno_number errnos.EMFILE = 24
errno_number errnos.EFBIG = 27
errno_number errnos.ENOSPC = 28
errno_number errnos.ENOSYS = 38
errno_number errnos.EPROTO = 71
errno_number errnos.EOPNOTSUPP = 95

-- each error once, in the order of their numbers
abbrev pub errors : List Errno
errors = errnos.ENOENT ∷ errnos.EIO ∷ errnos.EBADF ∷ errnos.EBUSY ∷ errnos.EEXIST ∷ errnos.ENOTDIR ∷ errnos.EISDIR ∷ errnos.EINVAL ∷ errnos.EMFILE ∷ errnos.EFBIG ∷ errnos.ENOSPC ∷ errnos.ENOSYS ∷ errnos.EPROTO ∷ errnos.EOPNOTSUPP ∷ []
