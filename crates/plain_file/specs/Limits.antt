-- The limits of files and of requests.
use Rattle.std.specs.Prelude.{ℕ}

-- how many files a directory has at most
abbrev pub max_files : ℕ
max_files = 16

-- how many bytes the readable part of a request has at most, and the room for its reply
abbrev pub max_part : ℕ
max_part = 1052672

-- how many bytes of a file one request moves at most
abbrev pub max_transfer : ℕ
max_transfer = 1048576
