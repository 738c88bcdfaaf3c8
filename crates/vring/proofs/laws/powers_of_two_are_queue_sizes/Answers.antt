use Rattle.vring.proofs.QueueSizes.{size_4, size_8, size_16, size_32, size_64, size_128, size_256, size_512, size_1024}
use Rattle.vring.proofs.laws.powers_of_two_are_queue_sizes.Goals as goal

pub returns-clause-size_4 : goal.returns-clause-size_4
returns-clause-size_4 c = size_4

pub returns-clause-size_8 : goal.returns-clause-size_8
returns-clause-size_8 c = size_8

pub returns-clause-size_16 : goal.returns-clause-size_16
returns-clause-size_16 c = size_16

pub returns-clause-size_32 : goal.returns-clause-size_32
returns-clause-size_32 c = size_32

pub returns-clause-size_64 : goal.returns-clause-size_64
returns-clause-size_64 c = size_64

pub returns-clause-size_128 : goal.returns-clause-size_128
returns-clause-size_128 c = size_128

pub returns-clause-size_256 : goal.returns-clause-size_256
returns-clause-size_256 c = size_256

pub returns-clause-size_512 : goal.returns-clause-size_512
returns-clause-size_512 c = size_512

pub returns-clause-size_1024 : goal.returns-clause-size_1024
returns-clause-size_1024 c = size_1024
