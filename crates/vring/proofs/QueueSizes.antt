-- The sizes that a driver's ring may have.
use Rattle.std.proofs.Common.{refl, lit≤}
use lib.Count.{ones}
use Rattle.vring.specs.Driver.{IsQueueSize}

pub size_4 : IsQueueSize 4
unfolding ones
size_4 = record { least = lit≤ tt; most = lit≤ tt; power = refl }

pub size_8 : IsQueueSize 8
unfolding ones
size_8 = record { least = lit≤ tt; most = lit≤ tt; power = refl }

pub size_16 : IsQueueSize 16
unfolding ones
size_16 = record { least = lit≤ tt; most = lit≤ tt; power = refl }

pub size_32 : IsQueueSize 32
unfolding ones
size_32 = record { least = lit≤ tt; most = lit≤ tt; power = refl }

pub size_64 : IsQueueSize 64
unfolding ones
size_64 = record { least = lit≤ tt; most = lit≤ tt; power = refl }

pub size_128 : IsQueueSize 128
unfolding ones
size_128 = record { least = lit≤ tt; most = lit≤ tt; power = refl }

pub size_256 : IsQueueSize 256
unfolding ones
size_256 = record { least = lit≤ tt; most = lit≤ tt; power = refl }

pub size_512 : IsQueueSize 512
unfolding ones
size_512 = record { least = lit≤ tt; most = lit≤ tt; power = refl }

pub size_1024 : IsQueueSize 1024
unfolding ones
size_1024 = record { least = lit≤ tt; most = lit≤ tt; power = refl }
