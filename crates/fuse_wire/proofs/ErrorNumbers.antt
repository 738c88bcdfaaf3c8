-- Each error is the first of all that has its number.
use Rattle.std.proofs.Common.{◌≡◌, ℤ, pos, Some, int_eq, refl, sym, subst}
use Rattle.std.specs.List.{find}
use Rattle.fuse_wire.specs.Errno.{errno_number, errors}
use Rattle.fuse_wire.specs.declared.errno.Errno.{Errno}
use Rattle.fuse_wire.specs.declared.errno.Errno.TheVariants as errnos

find_of_its_own : (e : Errno) → find (λ x. int_eq (pos (errno_number x)) (pos (errno_number e))) errors ≡ Some e
unfolding errno_number
find_of_its_own errnos.ENOENT = refl
find_of_its_own errnos.EIO = refl
find_of_its_own errnos.EBADF = refl
find_of_its_own errnos.EBUSY = refl
find_of_its_own errnos.EEXIST = refl
find_of_its_own errnos.ENOTDIR = refl
find_of_its_own errnos.EISDIR = refl
find_of_its_own errnos.EINVAL = refl
find_of_its_own errnos.EMFILE = refl
find_of_its_own errnos.EFBIG = refl
find_of_its_own errnos.ENOSPC = refl
find_of_its_own errnos.ENOSYS = refl
find_of_its_own errnos.EPROTO = refl
find_of_its_own errnos.EOPNOTSUPP = refl

pub find_of_number : (number : ℤ) (e : Errno) → number ≡ pos (errno_number e) → find (λ x. int_eq (pos (errno_number x)) number) errors ≡ Some e
find_of_number number e h = subst (λ (n : ℤ). find (λ x. int_eq (pos (errno_number x)) n) errors ≡ Some e) (sym h) (find_of_its_own e)
