use Rattle.std.proofs.Common.{Ok, subst, arith}
use Rattle.fuse_codec.specs.Reading.{Gives}
use Rattle.fuse_codec.proofs.RequestLaws.{found_by, message_again, memory_alone}
use Rattle.fuse_codec.proofs.decoding.decode_request.Goals as goal

pub returns-clause-found : goal.returns-clause-found
returns-clause-found c = found_by c.args.bytes.now c.message_of.result (λ i. omega (arith, c.type_inv.bytes i)) c.requires.within c.message_of.ensures

pub returns-clause-only : goal.returns-clause-only
returns-clause-only c = λ m s. subst (λ read. Gives c.message_of.result read) (message_again m c.args.bytes.now s) c.message_of.ensures

pub returns-clause-none : goal.returns-clause-none
returns-clause-none c = λ m e is s. memory_alone m e (subst (λ r. Gives r (Ok m)) is (returns-clause-only c m s))
