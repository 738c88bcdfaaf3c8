-- Records against bytes that were written out by hand.
use Rattle.std.proofs.Common.{◌≡◌, [], ◌∷◌, replicate, Some, None, negsuc, refl}
use Rattle.fuse_wire.specs.Layout.{clean}
use Rattle.fuse_wire.specs.Records.{in_header, out_header, out_header_of, read_in, read_in_of, write_in_of, write_out}

-- A READ's header. Its 80 bytes are 50 00 00 00 in front, and the number of a request shows the order of bytes.
in_header_bytes : clean (in_header (record { len = 80; opcode = 15; unique = 578437695752307201; nodeid = 2; uid = 1000; gid = 100; pid = 4242; total_extlen = 258 }))
    ≡ 80 ∷ 0 ∷ 0 ∷ 0 ∷ 15 ∷ 0 ∷ 0 ∷ 0 ∷ 1 ∷ 2 ∷ 3 ∷ 4 ∷ 5 ∷ 6 ∷ 7 ∷ 8 ∷ 2 ∷ 0 ∷ 0 ∷ 0 ∷ 0 ∷ 0 ∷ 0 ∷ 0
    ∷ 232 ∷ 3 ∷ 0 ∷ 0 ∷ 100 ∷ 0 ∷ 0 ∷ 0 ∷ 146 ∷ 16 ∷ 0 ∷ 0 ∷ 2 ∷ 1 ∷ 0 ∷ 0 ∷ []
unfolding in_header
in_header_bytes = refl

-- A reply of EINVAL: -22 is ea ff ff ff.
out_header_bytes : clean (out_header (record { len = 16; error = negsuc 21; unique = 7 })) ≡ 16 ∷ 0 ∷ 0 ∷ 0 ∷ 234 ∷ 255 ∷ 255 ∷ 255 ∷ 7 ∷ 0 ∷ 0 ∷ 0 ∷ 0 ∷ 0 ∷ 0 ∷ 0 ∷ []
unfolding out_header
out_header_bytes = refl

-- The same reply, read.
out_header_read : out_header_of (16 ∷ 0 ∷ 0 ∷ 0 ∷ 234 ∷ 255 ∷ 255 ∷ 255 ∷ 7 ∷ 0 ∷ 0 ∷ 0 ∷ 0 ∷ 0 ∷ 0 ∷ 0 ∷ []) ≡ Some (record { len = 16; error = negsuc 21; unique = 7 })
unfolding out_header_of
out_header_read = refl

-- A READ of 9 bytes at 2 MiB.
read_in_bytes : clean (read_in (record { fh = 7; offset = 2097152; size = 9; read_flags = 2; lock_owner = 513; flags = 32768 }))
    ≡ 7 ∷ 0 ∷ 0 ∷ 0 ∷ 0 ∷ 0 ∷ 0 ∷ 0 ∷ 0 ∷ 0 ∷ 32 ∷ 0 ∷ 0 ∷ 0 ∷ 0 ∷ 0 ∷ 9 ∷ 0 ∷ 0 ∷ 0 ∷ 2 ∷ 0 ∷ 0 ∷ 0
    ∷ 1 ∷ 2 ∷ 0 ∷ 0 ∷ 0 ∷ 0 ∷ 0 ∷ 0 ∷ 0 ∷ 128 ∷ 0 ∷ 0 ∷ 0 ∷ 0 ∷ 0 ∷ 0 ∷ []
unfolding read_in
read_in_bytes = refl

-- A WRITE of 4096 bytes, with padding that isn't 0.
write_in_read : write_in_of (3 ∷ 0 ∷ 0 ∷ 0 ∷ 0 ∷ 0 ∷ 0 ∷ 0 ∷ 8 ∷ 7 ∷ 6 ∷ 5 ∷ 4 ∷ 3 ∷ 2 ∷ 1 ∷ 0 ∷ 16 ∷ 0 ∷ 0 ∷ 1 ∷ 0 ∷ 0 ∷ 0
    ∷ 254 ∷ 255 ∷ 255 ∷ 255 ∷ 255 ∷ 255 ∷ 255 ∷ 255 ∷ 1 ∷ 128 ∷ 0 ∷ 0 ∷ 255 ∷ 1 ∷ 2 ∷ 3 ∷ [])
    ≡ Some (record { fh = 3; offset = 72623859790382856; size = 4096; write_flags = 1; lock_owner = 18446744073709551614; flags = 32769 })
unfolding write_in_of
write_in_read = refl

-- A WRITE's reply.
write_out_bytes : clean (write_out (record { size = 4096 })) ≡ 0 ∷ 16 ∷ 0 ∷ 0 ∷ 0 ∷ 0 ∷ 0 ∷ 0 ∷ []
unfolding write_out
write_out_bytes = refl

-- A byte too few, and one too many.
read_in_short : read_in_of (replicate 39 0) ≡ None
unfolding read_in_of
read_in_short = refl

read_in_long : read_in_of (replicate 41 0) ≡ None
unfolding read_in_of
read_in_long = refl
