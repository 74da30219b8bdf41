use Rattle.c_token.proofs.piece.read_piece.Goals as goal

pub returns-then-opens_block_comment : goal.returns-then-opens_block_comment
returns-then-opens_block_comment c = c.read_block_comment.ensures c.args.before.now
